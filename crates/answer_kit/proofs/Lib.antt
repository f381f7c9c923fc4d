pub mod Classes
pub mod NamesApart
pub mod Networks
pub mod NumberedOnce
pub mod OneClass
pub mod OneText
pub mod Replies
pub mod SecondFiles
