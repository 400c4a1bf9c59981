pub mod Show
pub mod Program
