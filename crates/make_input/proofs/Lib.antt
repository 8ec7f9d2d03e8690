mod Planes
mod Lines
mod Near
