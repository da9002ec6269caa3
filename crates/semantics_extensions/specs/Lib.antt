pub mod Searches
pub mod Signs
pub mod Decimals
pub mod Durations
pub mod IpAddrs
pub mod Datetimes
pub mod Readings
pub mod Tests
