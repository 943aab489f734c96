pub mod Days
pub mod Rights
pub mod BadgeLaws
pub mod Badges
pub mod DemoLaws
pub mod DemoTask
pub mod Demos
