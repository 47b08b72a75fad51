-- `Memory` has what recovery's start knows once the rows and the header have passed, `Guard` what a guard's outcome says.
pub mod Memory
pub mod Guard
