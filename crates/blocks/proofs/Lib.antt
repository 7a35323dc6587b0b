mod Eights
mod Chromas
mod Supplies
