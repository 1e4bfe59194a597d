-- What only private contracts cite: nobody has to believe it.
pub mod Written
