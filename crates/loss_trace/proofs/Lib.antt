pub mod Firsts
pub mod Results
pub mod Spelled
pub mod Readers
pub mod Texts
pub mod Traces
