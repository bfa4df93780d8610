mod Steps
mod Told
mod Readings
mod Axles
mod Sides
mod Kept
mod Held
mod Ten
