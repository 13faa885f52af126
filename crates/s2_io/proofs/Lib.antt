pub mod CommandLemmas
mod Rooms
