-- `Ways`: the ways out of finding what comes next. `Steps`: what comes next, in terms of records.
pub mod Ways
pub mod Steps
