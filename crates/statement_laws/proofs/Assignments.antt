pub mod Gains
pub mod Singles
pub mod Firsts
pub mod Assignments
pub mod Assigned
pub mod SameValues
pub mod SameParts
pub mod QuietParts
