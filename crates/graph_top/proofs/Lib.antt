mod Telling
mod Whens
mod Due
mod Sections
