pub mod RingFaces
