pub mod Cuts
pub mod SignedReads
pub mod DecimalReads
pub mod DurationReads
pub mod IpReads
pub mod MomentReads
pub mod RangeTests
pub mod Written
