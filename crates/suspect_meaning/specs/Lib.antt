pub mod Tester
