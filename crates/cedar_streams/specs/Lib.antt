pub mod StreamFaults
