mod Examples
mod Listed
mod Recovery
