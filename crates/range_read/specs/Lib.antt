pub mod Courses
pub mod Pages
pub mod Left
pub mod Walks
