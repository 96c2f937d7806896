pub mod PutValues
mod OrderedValues
