mod Listings
mod Medians
mod ScriptReading
mod SeedOutcomes
mod RunEnds
