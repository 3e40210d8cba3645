-- Modules in memory, as linking and placing leave them there.
pub mod InMemory
pub mod Code
-- Object modules of programs, at the places that the placement has for them.
pub mod AtPlans
-- Object modules with the names of the modules of a program.
pub mod Names
-- The modules of a program, and the memory where their object modules were placed.
pub mod ProgramInMemory
pub mod Linked
