pub mod PushedItems
