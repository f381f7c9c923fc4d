pub mod NetworkFiles
