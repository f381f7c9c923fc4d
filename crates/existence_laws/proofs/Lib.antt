mod Certificates
mod Graphs
mod Samples
mod Search
