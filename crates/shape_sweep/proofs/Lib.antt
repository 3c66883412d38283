pub mod SweepFaces
