mod Agreeing
mod LanesAlone
mod Opening
mod Reports
