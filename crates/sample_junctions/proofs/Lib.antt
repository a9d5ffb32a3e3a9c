mod Rising
mod Parts
mod States
mod Drawn
mod Table
mod OneSample
