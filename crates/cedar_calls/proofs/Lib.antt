mod LastOfEach
mod ByName
