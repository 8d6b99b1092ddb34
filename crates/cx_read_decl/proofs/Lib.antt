mod Begins
mod Autos
