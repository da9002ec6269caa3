pub mod LastClauses
