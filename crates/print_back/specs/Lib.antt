pub mod PrintedAgain
