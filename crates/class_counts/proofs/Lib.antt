pub mod FewClasses
