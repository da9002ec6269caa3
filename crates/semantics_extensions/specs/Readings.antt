-- What texts are read as.
pub use Rattle.semantics_extensions.specs.Datetimes.{datetime_in}
pub use Rattle.semantics_extensions.specs.Decimals.{decimal_in}
pub use Rattle.semantics_extensions.specs.Durations.{duration_in}
pub use Rattle.semantics_extensions.specs.IpAddrs.{ip_addr_in}
