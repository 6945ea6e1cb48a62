-- What a reader must believe: Modes, ControlFigure, Depths, StatusFigure, TrapEnables, and the
-- statements of RegisterLaws and TrapLaws.
pub mod ControlFigure
pub mod Depths
pub mod Modes
pub mod RegisterLaws
pub mod StatusFigure
pub mod TrapEnables
pub mod TrapLaws
