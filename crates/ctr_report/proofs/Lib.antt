mod CountLemmas
mod RowLemmas
mod ReportLemmas
