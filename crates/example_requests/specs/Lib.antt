pub mod Photos
