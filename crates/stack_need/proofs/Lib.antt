mod Prelude
mod Elements
mod Graph
mod Bodies
mod Within
mod WithinStatements
mod WithinRuns
mod Told
