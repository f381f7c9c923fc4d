mod Agreement
mod Named
mod OneVerify
