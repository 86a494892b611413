-- `Laws`: parts that change places. `Exchange`: two blocks exchanged byte by byte.
pub mod Laws
pub mod Exchange
