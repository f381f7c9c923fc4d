mod Ascii
mod Lists
