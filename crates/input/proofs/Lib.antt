-- What is read stands in front of the buffer (Front).
mod Front
