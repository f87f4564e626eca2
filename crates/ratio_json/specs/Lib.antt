pub mod BigJson
