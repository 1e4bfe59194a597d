-- The proof of the third demand, `demand3` of Demand3Proof.antt, and that of the amount, pays_amount of PaidProof.antt.
pub mod AmountLaws
pub mod StateLaws
pub mod SharesLaws
pub mod StandingLaws
pub mod BookLaws
pub mod PaymentsLaws
pub mod Demand3Proof
pub mod PaidProof
mod Example
