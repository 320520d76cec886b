pub mod DeliveryLaws
pub mod ReadingLemmas
