mod AllLaws
pub mod BufferLaws
pub mod DecimalLaws
mod Examples
pub mod FitLaws
pub mod HexLaws
pub mod ScanLaws
pub mod WriterLaws
