mod Decided
mod InBoth
mod Later
