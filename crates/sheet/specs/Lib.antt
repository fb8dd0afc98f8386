pub mod Circuit
pub mod Report
pub mod Promise
