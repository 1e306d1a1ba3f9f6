-- Why a file is refused with 1 to 7, in words of its bytes.
pub mod Why
