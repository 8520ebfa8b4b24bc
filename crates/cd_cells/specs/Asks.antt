-- What a domain is sent with, as all definitions here know it.
pub use Rattle.cd_core.specs.declared.ask.Ask.{Ask}
