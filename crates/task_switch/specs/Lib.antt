-- What a reader must believe: SaveArea, and Costs for how many accesses there are. WhilePassing ties the loops over
-- entries to them.
pub mod Costs
pub mod SaveArea
pub mod WhilePassing
