-- `Globals`: GE, GA, GB and CG. `Views`: what a wanted step asks. `Asked`: what the run can want. `OneStep`, `Searches`: how the run goes on after a step, after a search. `Tests`: the tests.
-- `Answering`: the answer of a step, and the run after it.
pub mod Asked
pub mod Globals
pub mod OneStep
pub mod Views
pub mod Tests
pub mod Searches
pub mod Answering
