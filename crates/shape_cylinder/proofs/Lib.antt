pub mod CylinderLaws
