-- What grows is `AreAdded` of ground, so almost every answer is one call.
-- A rule that concludes a call gives a method by itself, so that targets are methods needs no induction.
mod ClassSites
mod SiteOrder
mod FoundSites
