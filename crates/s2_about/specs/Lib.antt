pub mod FileSums
