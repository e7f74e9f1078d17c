pub mod Numbers
pub mod Quote
pub mod QuotationLine
pub mod Print
pub mod Inner
