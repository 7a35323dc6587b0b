-- Row 8 of the table in its own words, and the budget of windows on a whole call.
pub mod Rooms
pub mod Budget
